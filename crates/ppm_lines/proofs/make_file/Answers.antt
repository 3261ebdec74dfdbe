use Rattle.ppm_text.proofs.Files.{file_made}
use Rattle.ppm_lines.proofs.make_file.Goals as goal

pub returns-in-None-clause-made : goal.returns-in-None-clause-made
returns-in-None-clause-made g c = file_made _ _ c.in_ok-read_text.ensures _ _ c.end_text-s.ensures c.in-None.is
