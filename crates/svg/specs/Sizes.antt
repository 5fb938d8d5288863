-- How many bytes a drawing has at most: what the functions ask of each other. Nothing that a reader must believe stands here. Assumes nothing.
use Rattle.std.specs.Prelude.{ℕ}

abbrev pub drawing_size : ℕ
drawing_size = 262144
