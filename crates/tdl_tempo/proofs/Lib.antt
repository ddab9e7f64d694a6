mod Scaling
mod Worked
