mod Directions
mod FrameLaws
mod Readings
mod StreamLaws
