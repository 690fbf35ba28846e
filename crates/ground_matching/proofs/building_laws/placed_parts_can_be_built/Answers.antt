use Rattle.ground_matching.proofs.PlacedParts.{lists_have_terms, placed_can_be_built, placed_are_full}
use Rattle.ground_matching.proofs.building_laws.placed_parts_can_be_built.Goals as goal

pub returns : goal.returns
returns c = record {
  placed = λ d from places ps sorted have terms. placed_can_be_built d from places ps sorted have (lists_have_terms d from ps terms);
  full = placed_are_full;
}
