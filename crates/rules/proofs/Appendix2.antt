-- The bytes of Appendix 2's unit file are its commands: what is written is read back.
use mathlib.Core.Path.{◌≡◌}
use Rattle.rules.specs.File.{commands_in}
use Rattle.rules.specs.Reread.{fits_bytes, fit}
use Rattle.rules.specs.Examples.{appendix2, appendix2_file}
use Rattle.rules.proofs.Definitions.{opened}
use Rattle.rules.proofs.Reread.{reread}

pub appendix2-read : commands_in appendix2_file ≡ appendix2
unfolding appendix2_file opened fits_bytes fit
appendix2-read = reread.file appendix2 tt
