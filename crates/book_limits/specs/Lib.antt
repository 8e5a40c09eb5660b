pub mod PlaceLimits
