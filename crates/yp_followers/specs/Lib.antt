pub mod Followers
