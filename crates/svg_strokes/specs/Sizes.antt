-- How many bytes a stroke of a drawing and what stands before the strokes have at most: what the functions ask of each other. Nothing that a reader must believe stands here. Assumes nothing.
use Rattle.std.specs.Prelude.{ℕ}

abbrev pub point_size : ℕ
point_size = 49

abbrev pub stroke_size : ℕ
stroke_size = 64

abbrev pub head_size : ℕ
head_size = 320
