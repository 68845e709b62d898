-- Theorems: Exactly (when each outcome is given), Reaches (demand 3 on runs), OpByOp (ops in list order), Joining (joined channels run as each by itself), LastStep (what a run reports), Determined.
pub mod Exactly
pub mod Reaches
pub mod OpByOp
pub mod Joining
pub mod LastStep
pub mod Determined
-- their laws, and those of the loop over ops
pub mod Answered
pub mod Leaving
pub mod Reporting
pub mod Depends
pub mod Turn
