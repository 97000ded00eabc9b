pub mod Selftest
