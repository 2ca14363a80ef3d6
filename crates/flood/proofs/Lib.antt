pub mod FloodMoves
