mod Fronts
mod Guesses
