use Rattle.run_rows.proofs.coll_teams.join_next.Goals as goal

pub join-requires : goal.join-requires
join-requires g c = record { stands = c.in_ok-member_of.ensures.ready c.args.team.now.about c.args.team.now.size }
