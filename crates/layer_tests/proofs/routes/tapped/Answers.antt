-- The taps meet what the rails ask, by their places.
use Rattle.layer_tests.proofs.RouteFacts.{passed, passed_near, passed_above, near_taps, of_rails, end_beyond, are_tapped}
use Rattle.layer_tests.proofs.routes.tapped.Goals as goal

pub rails-requires-clause-near_taps : goal.rails-requires-clause-near_taps
rails-requires-clause-near_taps c = near_taps (passed c.args.first) (passed c.args.second) (passed_near c.args.first c.requires.first) (passed_near c.args.second c.requires.second)

pub rails-requires-clause-of_rails : goal.rails-requires-clause-of_rails
rails-requires-clause-of_rails c = of_rails (passed c.args.first) (passed c.args.second)

pub rails-requires-clause-ends : goal.rails-requires-clause-ends
rails-requires-clause-ends c = end_beyond (passed c.args.first) (passed c.args.second)

pub rails-requires-clause-tapped : goal.rails-requires-clause-tapped
rails-requires-clause-tapped c = are_tapped (passed c.args.first) (passed c.args.second) (passed_above c.args.first c.requires.first c.requires.above)
