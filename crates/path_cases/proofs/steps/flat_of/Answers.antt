use Rattle.path_cases.proofs.steps.flat_of.Goals as goal

pub returns : goal.returns
returns c = record {
  path = c.in_ok-path.path;
  pads = c.in_ok-path.ensures.pads;
  path_shows = c.in_ok-path.ensures.shown;
  flat = c.in_ok-flat.ensures.flat;
  shows = c.flat_nets_follow.ensures.shows c.args.rtl.now c.in_ok-path.path c.in_ok-flat.flat
      c.in_ok-path.ensures.pads c.in_ok-path.ensures.shown c.in_ok-flat.ensures.flat;
}
