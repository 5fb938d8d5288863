-- How many bytes a label of a drawing and what stands before the labels have at most: what the functions ask of each other. Nothing that a reader must believe stands here. Assumes nothing.
use Rattle.std.specs.Prelude.{ℕ}

abbrev pub label_size : ℕ
label_size = 320

abbrev pub labels_head_size : ℕ
labels_head_size = 128
