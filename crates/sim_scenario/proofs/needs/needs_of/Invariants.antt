-- What the statements behind the place need.
use Rattle.std.proofs.Common.{◌≡◌, ◌-◌, ◌≤◌, length, drop}
use Rattle.sim_script_model.specs.Needs.{last_given_in, open_before, frame_change, most_frames, scope_change, most_open_scopes}
use Rattle.sim_scenario.proofs.needs.needs_of.Given as goal

abbrev pub invariant-loop-place : goal.invariant-loop-place
invariant-loop-place l = record {
  variable : l.variable ≡ last_given_in (drop l.place l.code);
  open_frames : l.open_frames ≡ open_before frame_change (drop l.place l.code);
  frames : l.frames ≡ most_frames (drop l.place l.code);
  few_frames : l.open_frames ≤ length l.code - l.place;
  open_scopes : l.open_scopes ≡ open_before scope_change (drop l.place l.code);
  scopes : l.scopes ≡ most_open_scopes (drop l.place l.code);
  few_scopes : l.open_scopes ≤ length l.code - l.place;
}
