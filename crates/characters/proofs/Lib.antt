mod Places
mod Utf8Steps
mod Passing
mod Naming
mod Words
mod Looking
