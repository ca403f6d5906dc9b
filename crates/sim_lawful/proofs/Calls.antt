-- Callbacks that are called.
pub mod StoppedWaiting
pub mod CalledStrike
pub mod CalledTrigger
pub mod CalledTry
