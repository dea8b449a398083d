mod Leafing
mod Atomic
mod Links
mod Heading
