use Rattle.std.proofs.Common.{replicate}
use Rattle.std.proofs.lemmas.List.{get_or-replicate}
use Rattle.scc_base.proofs.TableLemmas.{world_shows, mod_shows, div_shows}
use Rattle.scc_base.proofs.communicators.group_of.Goals as goal

pub returns-in-Absent : goal.returns-in-Absent
returns-in-Absent c = record {
  shows = world_shows c.args.comms.now c.requires.rules c.args.comm c.requires.below c.in-Absent.is (replicate 48 0) c.group_alike.result
      (λ r h. get_or-replicate 48 r 0 0 h) c.group_alike.ensures.shows;
}

pub returns-in-Mod : goal.returns-in-Mod
returns-in-Mod c = record {
  shows = mod_shows c.args.comms.now c.requires.rules c.args.comm c.requires.below c.in-Mod.parent c.in-Mod.k c.in-Mod.is c.args.groups.now c.requires.shown
      c.remainder_labels.result c.group_alike-in-Mod.result c.remainder_labels.ensures.labels c.group_alike-in-Mod.ensures.shows;
}

pub returns-in-Div : goal.returns-in-Div
returns-in-Div c = record {
  shows = div_shows c.args.comms.now c.requires.rules c.args.comm c.requires.below c.in-Div.parent c.in-Div.k c.in-Div.is c.args.groups.now c.requires.shown
      c.quotient_labels.result c.group_alike-in-Div.result c.quotient_labels.ensures.labels c.group_alike-in-Div.ensures.shows;
}
