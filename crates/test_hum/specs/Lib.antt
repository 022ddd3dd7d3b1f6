pub mod Hum
