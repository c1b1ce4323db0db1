mod Listing
mod Quoting
