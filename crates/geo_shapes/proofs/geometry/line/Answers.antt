use Rattle.geo_shapes.proofs.Geometries.{if_ok}
use Rattle.geo_shapes.proofs.geometry.line.Goals as goal

pub returns : goal.returns
returns c = record {
  value = if_ok c.read_line.result c.read_line.ensures (λ r h. h.0.value);
  there = if_ok c.read_line.result c.read_line.ensures (λ r h. h.0.there);
  bad_position = if_ok c.read_line.result c.read_line.ensures (λ r h. h.0.bad_position);
  bad_form = if_ok c.read_line.result c.read_line.ensures (λ r h. h.0.bad_form);
  positions = if_ok c.read_line.result c.read_line.ensures (λ r h. h.1);
  longest = if_ok c.read_line.result c.read_line.ensures (λ r h. h.0.longest);
}
