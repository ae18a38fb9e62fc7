mod Venues
