use Rattle.scc_base.proofs.GroupFacts.{place_below, place_above, place_once, place_found, members_length, member_at_place}
use Rattle.scc_base.proofs.laws.places_law.Goals as goal

pub returns : goal.returns
returns c = record {
  below = place_below;
  ordered = place_above;
  once = place_once;
  filled = place_found;
  counted = members_length;
  listed = member_at_place;
}
