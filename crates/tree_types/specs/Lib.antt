pub mod Permits
