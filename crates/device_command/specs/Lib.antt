pub mod DeviceLines
