mod Inputs
mod OneFault
