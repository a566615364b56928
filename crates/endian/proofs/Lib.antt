mod Spelled
