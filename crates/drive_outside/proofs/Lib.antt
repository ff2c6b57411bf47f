mod Beside
mod Stations
