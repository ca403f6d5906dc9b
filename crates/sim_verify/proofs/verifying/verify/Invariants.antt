use Rattle.sim_verify.proofs.verifying.verify.Given as goal

abbrev pub ghosts-verify_text : goal.ghosts-verify_text
ghosts-verify_text a = record { bytes = a.text.now }
