pub mod StepNumbers
