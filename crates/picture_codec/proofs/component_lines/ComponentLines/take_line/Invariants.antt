use Rattle.picture_codec.proofs.component_lines.ComponentLines.take_line.Given as goal

abbrev pub ghost-put_line : goal.ghost-put_line
ghost-put_line g a = g.g
