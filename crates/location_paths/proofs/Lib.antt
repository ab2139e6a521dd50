mod Texts
mod Steps
mod Ways
