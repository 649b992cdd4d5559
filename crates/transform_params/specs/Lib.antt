pub mod Params
pub mod Views
pub mod ParameterFields
