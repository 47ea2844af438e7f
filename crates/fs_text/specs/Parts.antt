-- The parts of the code.
use Rattle.fs_text.specs.{declared.parts.Piece.{Piece, TheVariants.{Run as RunPiece, Delimiter as MarkPiece}}, Pieces.{Part, Run, Delimiter}}

abbrev pub as_part : Piece → Part
as_part (RunPiece run) = Run run.now
as_part (MarkPiece mark) = Delimiter mark
