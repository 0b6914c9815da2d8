pub mod Joining
mod Multiples
mod Same
