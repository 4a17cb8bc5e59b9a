mod Language
mod Literal
mod Names
mod Numbers
mod Parts
mod Forms
mod Misfits
mod Lines
