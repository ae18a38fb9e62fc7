pub mod Slots
mod AskedSlots
