mod Words
pub mod Bodies
pub mod BodyReaders
pub mod Fronts
pub mod ValueFaults
pub mod ValueSteps
pub mod Made
pub mod NormalForm
pub mod Frames
pub mod Writable
pub mod Reading
pub mod Fed
pub mod OneOutcome
pub mod Again
pub mod Sound
pub mod Destination
pub mod Equal
pub mod InNormalForm
