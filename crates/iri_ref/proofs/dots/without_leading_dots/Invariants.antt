-- What is left has the segments of the path, but for its leading dots.
use Rattle.std.proofs.Common.{◌≡◌, length}
use denote.Shadow.{shadow}
use denote.Text.{Utf8}
use Rattle.iri_ref.specs.Dots.{closed, segments_of, without_leading_dots}
use Rattle.iri_ref.proofs.dots.without_leading_dots.Given as goal

abbrev pub invariant-loop-after : goal.invariant-loop-after
invariant-loop-after l = shadow (Utf8 l.rest) × (without_leading_dots (closed (segments_of l.rest)) ≡ without_leading_dots (closed (segments_of l.path)))

abbrev pub decreases-loop-after : goal.decreases-loop-after
decreases-loop-after l = length l.rest
