mod Directions
