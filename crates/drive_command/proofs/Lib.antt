pub mod VolumeSteps
pub mod SessionSteps
pub mod OutsideSteps
pub mod SameVerdict
