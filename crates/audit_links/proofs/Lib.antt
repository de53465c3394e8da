mod Links
mod Linked
mod Noted
mod Pass
