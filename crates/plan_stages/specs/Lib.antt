-- The stages of planning, each as the ops that it puts out.
pub mod Stages
