mod Words
pub mod Difference
pub mod Heads
pub mod Items
pub mod Rising
pub mod ReadsBack
pub mod Fronts
