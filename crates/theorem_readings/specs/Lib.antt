-- 01's starred cases.
pub mod Rows
