pub mod Vocabulary
pub mod Literal
pub mod SameQuad
pub mod ToRdf
pub mod Subjects
pub mod Needs
