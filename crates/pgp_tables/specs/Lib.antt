pub mod DeviceTable
pub mod PoolTable
pub mod TempTable
