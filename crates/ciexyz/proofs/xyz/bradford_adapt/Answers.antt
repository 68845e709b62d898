-- `bradford_adapt` answers `bradford_between`.
-- Each call's result stands for its meaning, and the constants of the code are those of the spec.
use Rattle.ciexyz.specs.Constants.{bradford_mat, bradford_inv}
use Rattle.ciexyz.proofs.xyz.bradford_adapt.Goals as goal

pub returns : goal.returns
unfolding bradford_mat bradford_inv
returns c =
    rw (
      ← c.matmul3vec-from_lms.ensures,
      ← c.matmul3vec-to_lms.ensures,
      ← c.quotients-mul.ensures,
      ← c.scale_rows.ensures,
    )
    c.matmul3.ensures
