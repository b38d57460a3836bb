mod Parts
mod Puts
