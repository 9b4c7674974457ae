pub mod TxsInRing
pub mod StaleSectors
pub mod LogRing
pub mod LogOnImage
