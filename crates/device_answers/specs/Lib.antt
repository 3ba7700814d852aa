pub mod DeviceAnswers
