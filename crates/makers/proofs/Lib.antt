mod Reducing
mod Ending
