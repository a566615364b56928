mod Facts
mod Powers
mod Commits
