-- A component that is counted.
use Rattle.slice_encoder.specs.declared.bounding.CountedComponent.{CountedComponent}
use Rattle.slice_encoder.specs.Buffers.{coded_component}
use Rattle.slice_encoder.specs.Trials.{CodedComponent}

-- the component that it is
abbrev pub component_of : CountedComponent → CodedComponent
component_of c = coded_component c.layout.now c.size c.matrix.now c.coefficients.now
