pub mod BookPlaces
