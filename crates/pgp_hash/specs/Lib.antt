pub mod Words
pub mod Mix
pub mod Hash
pub mod NameHash
pub mod StableMod
pub mod Worked
